use Rattle.std.proofs.Common.{◌≡◌, ◌<◌, ◌+◌, ◌++◌, [], List, ℕ, length, drop, false, chars, string_bytes, ap, sym, subst, ◌∙◌, arith}
use Rattle.std.specs.Prelude.{IfOk}
use Rattle.std.proofs.lemmas.Iterator.{YieldsList-from_chars}
use Rattle.std.proofs.lemmas.Iterator.Consumers.{YieldsList-turn, YieldsList-end}
use Rattle.std.proofs.lemmas.List.{length_push, at_drop_all}
use Rattle.std.proofs.lemmas.Str.{chars-nil}
use Rattle.schematron_texts.specs.Replacing.{bytes_of, IsWithin}
use Rattle.schematron_texts.specs.Walking.{walked, made_with}
use Rattle.schematron_texts.proofs.CharacterLemmas.{rest_at}
use Rattle.schematron_texts.proofs.WalkLemmas.{walked-is, all_made, too_much}
use Rattle.schematron_texts.proofs.replacing.replaced_within.Goals as goal

pub characters-init : goal.characters-init
characters-init c =
    let none : chars (string_bytes c.new.result) ≡ [] = ap chars c.new.ensures.bytes ∙ chars-nil in
    let name : List ℕ = chars (string_bytes (c.new-2.result)) in
    record {
      all = ap (λ t. t ++ walked c.args.parameters.now false name (chars c.args.text.now)) none ∙ walked-is c.args.parameters.now name (chars c.args.text.now);
      within = omega (arith, c.new.ensures.len);
    }

pub returns-then-not-branch : goal.returns-then-not-branch
returns-then-not-branch c =
    let turn = YieldsList-turn (YieldsList-from_chars c.args.text.now c.utf8.text cc) c.characters.yielded _ c.characters.yielded_by _ _ c.in-Some.c
    c.in-Some.is c.next.ensures.steps in
    let whole = ap (made_with c.args.parameters.now c.characters.walk) (sym (rest_at (chars c.args.text.now) _ c.in-Some.c turn)) ∙
    c.characters.invariant.all in
    subst (λ t. c.args.most < bytes_of t) whole
    (too_much c.args.most c.in_ok-take.field-0 _ _ c.if-not-branch.true
    (c.in_ok-take.ensures.made (drop (length c.characters.yielded + 1) (chars c.args.text.now))))

pub characters-preserved : goal.characters-preserved
characters-preserved c =
    let turn = YieldsList-turn (YieldsList-from_chars c.args.text.now c.utf8.text cc) c.characters.yielded _ c.characters.yielded_by _ _ c.in-Some.c
    c.in-Some.is c.next.ensures.steps in
    record {
      all = rw (length_push c.characters.yielded c.in-Some.c)
          (all_made c.args.most c.in_ok-take.field-0 _ _ c.if-not-branch.false
          (c.in_ok-take.ensures.made (drop (length c.characters.yielded + 1) (chars c.args.text.now)))
          ∙ (ap (made_with c.args.parameters.now c.characters.walk) (sym (rest_at (chars c.args.text.now) _ c.in-Some.c turn)) ∙ c.characters.invariant.all));
      within = c.take.ensures.within;
    }

pub returns : goal.returns
returns c =
    let end = YieldsList-end (YieldsList-from_chars c.args.text.now c.utf8.text cc) c.characters.yielded _ c.characters.yielded_by _ _ c.in-None.is
    c.next.ensures.steps in
    let whole = sym (at_drop_all (made_with c.args.parameters.now c.characters.walk) (chars c.args.text.now) _ (omega (arith, end.1))) ∙
    c.characters.invariant.all in
    subst (λ t. IfOk c.end.result (λ made. IsWithin c.args.most t made)) whole c.end.ensures
