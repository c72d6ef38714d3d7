-- The texts that are built in, as bytes: each is a constant of this crate's sources, which conformance/rule_texts.py makes
-- of a file of rules/.
use Rattle.std.specs.Prelude.{ℕ, List}
use Rattle.rule_texts.specs.declared.ubl.TheConstants.{UBL_RULES}
use Rattle.rule_texts.specs.declared.cii.TheConstants.{CII_RULES}
use Rattle.rule_texts.specs.declared.codes.TheConstants.{CODE_LISTS}

-- rules/en16931-ubl.sch
unfoldable pub ubl_text : List ℕ
ubl_text = UBL_RULES.now

-- rules/en16931-cii.sch
unfoldable pub cii_text : List ℕ
cii_text = CII_RULES.now

-- rules/codes.toml
unfoldable pub code_lists_text : List ℕ
code_lists_text = CODE_LISTS.now
