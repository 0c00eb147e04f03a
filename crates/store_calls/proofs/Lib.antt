pub mod EngineRuns
