pub mod WordClosure
