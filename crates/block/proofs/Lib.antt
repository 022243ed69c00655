pub mod LaidOut
pub mod Sound
