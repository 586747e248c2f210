mod CallsLemmas
mod ShapeLemmas
