-- Accepted: which files are accepted, and with which trace. Demand1, Demand2, Demand3: the customer's sentences.
-- Report: those that speak of the report. Interface: that they are true of the C interface too. RaceList: that the
-- promise which they speak of is that of the call `race_list`. Outcomes: one law for the answers of all calls. Of the
-- functions of src/, one has a proof here; the others are proved without.
pub mod Outcomes
pub mod Accepted
pub mod Demand1
pub mod Demand2
pub mod Demand3
pub mod Report
pub mod Interface
pub mod RaceList
