pub mod Written
pub mod Cut
pub mod Ports
pub mod Store
pub mod MemPorts
