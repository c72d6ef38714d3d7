pub mod Final
pub mod Holding
pub mod Indicating
pub mod Listing
pub mod Once
pub mod Order
pub mod Pass
pub mod Placing
pub mod Rooms
pub mod LastPick
pub mod Sound
pub mod Tolds
pub mod WordLemmas
pub mod Fronts
pub mod Images
pub mod NodeLists
pub mod Literals
pub mod Least
pub mod FaultOrder
pub mod FirstFault
pub mod Gathering
pub mod Within
mod Days
mod RowNumbers
