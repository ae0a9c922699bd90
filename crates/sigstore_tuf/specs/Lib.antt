pub mod StoreRepository
pub mod Updater
