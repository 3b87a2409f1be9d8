-- How the code goes about it, from left to right. No claim needs these definitions: each is proved
-- to agree with the relation beside this folder.
pub mod Numbers
pub mod OptionLine
pub mod Marks
pub mod Scan
pub mod Lexing
pub mod Outcomes
