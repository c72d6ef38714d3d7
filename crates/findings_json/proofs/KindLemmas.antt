-- The words for what a finding came to are ASCII.
use Rattle.std.proofs.Common.{◌≡◌, List, true, refl}
use Rattle.std.specs.Prelude.{chars, nat_lt}
use Rattle.std.specs.List.{list_all}
use Rattle.schematron_findings.specs.declared.level.Level.{Level}
use Rattle.schematron_findings.specs.declared.level.Level.TheVariants as l
use Rattle.schematron_findings.specs.declared.finding.FindingKind.{FindingKind}
use Rattle.schematron_findings.specs.declared.finding.FindingKind.TheVariants as k
use Rattle.xpath_items.specs.declared.outcome.DynError.{DynError}
use Rattle.xpath_items.specs.declared.outcome.DynError.TheVariants as e
use Rattle.xpath_items.specs.Codes.{code_text}
use Rattle.json_text.proofs.WordLemmas.{chars-word}
use Rattle.findings_json.specs.FindingsJson.{kind_text}

kind-ascii : (outcome : FindingKind) (level : Level) → list_all (λ b. nat_lt b 128) (kind_text outcome level) ≡ true
kind-ascii k.Failed l.Fatal = refl
kind-ascii k.Failed l.Warning = refl
kind-ascii k.Failed l.Information = refl
kind-ascii k.Reported level = refl
kind-ascii (k.Error error) level = refl

pub chars-kind : (outcome : FindingKind) (level : Level) → chars (kind_text outcome level) ≡ kind_text outcome level
chars-kind outcome level = chars-word (kind_text outcome level) (kind-ascii outcome level)

code-ascii : (error : DynError) → list_all (λ b. nat_lt b 128) (code_text error) ≡ true
code-ascii e.FOAR0001 = refl
code-ascii _ = refl

pub chars-code : (error : DynError) → chars (code_text error) ≡ code_text error
chars-code error = chars-word (code_text error) (code-ascii error)
