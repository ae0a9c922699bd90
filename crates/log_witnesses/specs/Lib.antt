pub mod Cause
pub mod Cosigned
pub mod Error
pub mod IsCosigned
pub mod Witness
