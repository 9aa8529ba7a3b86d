pub mod FileReports
