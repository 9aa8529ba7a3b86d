pub mod Scheduler
