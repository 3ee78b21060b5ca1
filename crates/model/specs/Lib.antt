-- "The job"
pub mod Table
pub mod Command
pub mod Declared
pub mod Program
-- "A turn"
pub mod State
pub mod Turn
pub mod Permission
pub mod Run
-- "What the run hands over"
pub mod Output
-- "When a job is turned away"
pub mod Refusal
pub mod Result
-- the dispatcher (S-2)
pub mod Dispatch
pub mod DispatchResult
-- statements: demands 1, 2 and 3 ("Watched beside bare"), "Jobs worked by hand", open points
pub mod Conclusion
pub mod Following
pub mod Transparency
pub mod Examples
pub mod Readings
-- statements on change requests
pub mod Dispatching
pub mod DispatchConclusion
pub mod DispatchExamples
pub mod LargestCounts
pub mod LeastPrivilege
pub mod Parts
pub mod Replies
pub mod Secrecy
pub mod SecrecyExamples
pub mod Senders
pub mod Spans
pub mod Tally
pub mod TallyExamples
pub mod WorkSize
-- what holds of accepted jobs and of states, for proofs about code
pub mod Valid
