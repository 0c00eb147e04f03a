-- What installs log, and what they may still log.
pub mod Older
pub mod OlderWork
pub mod DirtyLogs
pub mod FewLogged
pub mod Tally
