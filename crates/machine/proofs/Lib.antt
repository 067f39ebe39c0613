-- ---- what a state stands for
pub mod Todo
pub mod Logs
pub mod Locks
pub mod Changes
-- ---- one step is the machine's
pub mod Moves
pub mod Sim
-- ---- and keeps what holds of a state
pub mod Lengths
pub mod Keeps
pub mod Offered
pub mod Counts
pub mod Taken
-- ---- the code's functions
pub mod Standing
pub mod Nexts
pub mod Taking
pub mod Starts
pub mod Ends
