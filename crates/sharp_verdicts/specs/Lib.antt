-- In reading order.
pub mod Instances
pub mod Right
pub mod Derived
pub mod Sharpened
pub mod SharpLines
pub mod SharpPlaces
pub mod SharpFaults
pub mod SharpJudge
pub mod Judged
pub mod Totals
