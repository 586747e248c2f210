mod EndsLemmas
mod InputLemmas
mod WordLemmas
