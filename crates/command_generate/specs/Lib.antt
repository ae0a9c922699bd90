pub mod Generate
pub mod Judged
pub mod Provider
pub mod Supplies
pub mod Workload
