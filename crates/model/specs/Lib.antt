-- ---- document 01, in its order: what a reader must believe

-- "Sizes"
pub mod Sizes
-- "Records"
pub mod Record
pub mod Fields
pub mod Program
pub mod Kinds
-- "When a step is allowed"
pub mod Lists
pub mod Machine
pub mod Rules
pub mod Left
-- "Numbers the caller gets"
pub mod Table
pub mod Reply
pub mod Numbers
-- ---- the same as functions, for code to be proved against; proofs/ shows that they agree
pub mod Step
pub mod Finish
pub mod Tests
pub mod Reading
pub mod Calls
-- ---- what the code's types stand for
pub mod Code
-- ---- what follows: an invariant, the demands, and the sheet's worked lines
pub mod Orderly
pub mod Promises
pub mod Sheet
