pub mod Messages
pub mod History
pub mod Ways
pub mod Snoop
pub mod Maps
pub mod Bridge
pub mod Queue
pub mod Laws
