-- Accepting: question 10 as the code asks it. Questions: what acceptance means, and which refusals there are. Answers:
-- what the call's answer says.
pub mod Accepting
pub mod Questions
pub mod Answers
