-- the reader on texts
pub mod Examples
-- ---- tokens
pub mod Pieces
pub mod Splitting
-- ---- forms
pub mod Bools
pub mod Apart
pub mod Forms
pub mod Progress
-- ---- the automaton, and the grammar
pub mod Runs
pub mod Reached
pub mod Viable
-- ---- the answer
pub mod Faults
pub mod Determined
pub mod Answers
pub mod Following
-- ---- the records of a text
pub mod Drafts
pub mod Tables
-- ---- the call
pub mod Imports
pub mod Replies
