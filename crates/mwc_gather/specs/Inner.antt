-- What only proofs, private functions and invariants need: no public contract mentions it.
pub mod PartBuilders
pub mod Holders
pub mod Scheduling
pub mod Fault
pub mod Settled
pub mod Sending
pub mod WorkerHandles
pub mod Gathering
