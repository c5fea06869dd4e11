-- Laws of sessions, proved: what the crates above cite, each from the file of this folder that has its proof.
pub mod Turns
pub mod Events
pub mod Numbers
pub mod Counted
pub mod Sessions
pub mod Clear
pub mod Telling
pub mod Links
pub mod Finishing
pub mod Progressing
pub mod Recorded
pub mod Attended
pub mod OneBusSessions
-- polls in turns
pub use Rattle.vx_session.proofs.Laws.Turns.{poll-all, ispolled-all, has-moment, has-none, poll-at, chosen-own, poll-phase, ispolled-phase}
-- the groups that a pass makes, one list of them after another, and the calls of its clock
pub use Rattle.vx_session.proofs.Laws.Turns.{makes-none, makes-goes, makes-later, clocked-goes, clockedas-none, clockedas-goes}
-- lists of events, one after another; and where no connection comes up or goes down
pub use Rattle.vx_session.proofs.Laws.Events.{ups-append, downs-append, ups-front, downs-front, events_of-append, IsNeither, front-steady, all-steady, append-steady}
-- how many connections live behind a history, and where there is room for one more
pub use Rattle.vx_session.proofs.Laws.Counted.{counts-hold, few-holds, room-holds}
-- groups of a pass; a call, a device_abort and a message have no connection come up or go down
pub use Rattle.vx_session.proofs.Laws.Sessions.{events_by-append, none-steady, more-steady, called-steady, aborted-steady, served-steady, makes-ups, makes-downs, makes-alone}
-- connects and ends: a connection came up and went, or none came up
pub use Rattle.vx_session.proofs.Laws.Sessions.{joined-holds, refused-holds, left-holds, ends-made, came-and-went, none-came, came-undone}
-- one link after another: where each connection went down again none is refused for want of room
pub use Rattle.vx_session.proofs.Laws.Clear.{clear-first, clear-on, never-full}
-- what a call leaves of its connection and of the numbers of its links, and what its reply tells of them
pub use Rattle.vx_session.proofs.Laws.Links.{chain-begins, called-links}
