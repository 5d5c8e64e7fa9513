mod Ended
mod ManyEnds
