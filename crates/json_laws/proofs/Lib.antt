mod Tokens
mod Lexing
mod ReadingLemmas
