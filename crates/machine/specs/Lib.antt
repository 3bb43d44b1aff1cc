pub mod Values
pub mod Frames
pub mod Numbers
pub mod Events
pub mod Machine
pub mod Goes
pub mod Statuses
pub mod inside
