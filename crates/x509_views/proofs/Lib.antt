mod Identifiers
mod Lists
mod Made
mod Once
mod Repeated
mod SctLists
mod Walks
mod Wholes
