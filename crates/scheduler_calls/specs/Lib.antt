pub mod SchedulerCalls
