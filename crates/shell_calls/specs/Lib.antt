pub mod ShellCalls
