pub mod RedoStarts
pub mod Codec
pub mod CodecLaws
