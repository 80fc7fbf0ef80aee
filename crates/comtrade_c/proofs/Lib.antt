pub mod Tables
pub mod Pairs
pub mod Refused
pub mod Lacking
pub mod Laid
pub mod Filled
pub mod Timed
pub mod Flat
