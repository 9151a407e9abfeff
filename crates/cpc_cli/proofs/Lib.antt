pub mod AnswerLemmas
pub mod AskedLemmas
pub mod CauseLemmas
pub mod ExactLemmas
pub mod HostLemmas
pub mod RunLemmas
pub mod TopLemmas
pub mod SampleLemmas
