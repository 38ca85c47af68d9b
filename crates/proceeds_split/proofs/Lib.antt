-- Lemmas.
pub mod EqualRank
pub mod LineEnds
pub mod LinePaid
pub mod LineRemains
pub mod LinesAdded
pub mod MembersPaid
pub mod PartsPaid
pub mod PlanPaid
pub mod PlanRoom
pub mod RightsSum
pub mod RunsLeft
