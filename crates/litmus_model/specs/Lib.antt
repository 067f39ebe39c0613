-- ---- document 01, "The litmus text form", and document 02, order 2: what a reader must believe

-- bytes and tokens
pub mod Bytes
pub mod Tokens
-- the forms of cells, and the grammar
pub mod Forms
pub mod Grammar
-- the records of a text, or 19, 20 or 21
pub mod Answers
-- all that a caller gets
pub mod Imports
-- ---- the same as functions, for code to be proved against; proofs/ shows that they agree
pub mod Splitting
pub mod Reader
pub mod Call
