pub mod GroupCalls
