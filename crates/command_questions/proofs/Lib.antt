mod Meaning
mod Sufficing
mod SufficingForFolder
mod WaySufficing
mod GateWaySufficing
mod SufficingForTargets
