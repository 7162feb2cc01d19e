pub mod Answering
pub mod Leading
pub mod PacketMemory
pub mod Accepted
