use Rattle.std.proofs.Common.{◌≤◌, sym, subst, arith}
use Rattle.xml_tokens.specs.Searching.{Searched, Fits}
use Rattle.xml_tokens.proofs.SearchingLemmas.{fresh-fits, few-searched}
use Rattle.xml_profile.proofs.InsideLemmas.{open-nothing}
use Rattle.xml_profile.proofs.reader.Reader.new.Goals as goal

pub invariant_of-result : goal.invariant_of-result
invariant_of-result c =
    let fits = subst (λ (s : Searched). Fits s c.new-2.result.items) (sym c.new.ensures.2) (fresh-fits c.new-2.result.items) in
    record {
      at = record { within = subst (λ n. n ≤ c.args.limits.bytes) (sym c.new.ensures.1) (omega arith); fits = fits };
      searched = few-searched _ _ fits (omega arith);
      other = open-nothing _ _ (omega arith);
    }
