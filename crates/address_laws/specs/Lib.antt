pub mod AddressTrees
pub mod Addresses
pub mod Addressed
pub mod Samples
pub mod EntryAddresses
