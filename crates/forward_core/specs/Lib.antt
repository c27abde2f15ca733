pub mod Arrived
pub mod Carrying
pub mod Due
pub mod Fabric
pub mod Ranges
pub mod Restoring
pub mod Turns
