mod ItemLemmas
