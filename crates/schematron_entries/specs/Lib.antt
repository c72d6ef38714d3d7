pub mod Seen
pub mod Reading
pub mod Keys
pub mod Firsts
pub mod Chains
pub mod Order
