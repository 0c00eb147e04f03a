pub mod Frames
pub mod FrameBuffer
pub mod Laws
