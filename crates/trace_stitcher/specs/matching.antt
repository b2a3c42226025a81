pub mod Fitting
pub mod Ranking
pub mod Surveys
