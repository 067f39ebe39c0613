pub mod Results
pub mod Demands
