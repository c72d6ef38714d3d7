mod ChainLemmas
mod BodyLemmas
mod NameLemmas
mod CountedLemmas
mod PutLemmas
