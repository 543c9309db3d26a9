mod OperationsLemmas
mod ReplayLemmas
mod RefusedLemmas
mod CountLemmas
mod LogLemmas
mod ServiceLemmas
mod RestoringLemmas
mod PageLemmas
