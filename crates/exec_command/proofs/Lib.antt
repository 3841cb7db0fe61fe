pub mod SameConstants
pub mod Results
