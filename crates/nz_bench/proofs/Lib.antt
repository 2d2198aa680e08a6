pub mod SimplexLemmas
