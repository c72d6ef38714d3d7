use Rattle.std.proofs.Common.{sym, ◌∙◌, arith}
use Rattle.xml_tokens.specs.Seen.{shows_good}
use Rattle.xml_tokens.specs.declared.token.Token.TheVariants as tokens
use Rattle.xml_tokens.proofs.TokenLemmas.{shows-same, begin-reference, begin-bracket, begin-line-end, begin-other}
use Rattle.xml_tokens.proofs.beginning.text_at.Goals as goal

pub returns-in-38 : goal.returns-in-38
returns-in-38 c = shows-same _ _ _ (begin-reference c.args.position c.args.ended c.args.bytes.now c.args.behind.now c.args.first c.requires.whole c.in-38.is)
    c.reference_token.ensures

pub returns-in-93 : goal.returns-in-93
returns-in-93 c = shows-same _ _ _ (begin-bracket c.args.position c.args.ended c.args.bytes.now c.args.behind.now c.args.first c.requires.whole c.in-93.is)
    c.bracket_at.ensures

pub returns-in-13 : goal.returns-in-13
returns-in-13 c = shows-same _ _ _ (begin-line-end c.args.position c.args.ended c.args.bytes.now c.args.behind.now c.args.first c.requires.whole c.in-13.is)
    c.line_end_at.ensures

pub returns-in_default : goal.returns-in_default
returns-in_default c = shows-same _ _ _ (begin-other c.args.position c.args.ended c.args.bytes.now c.args.behind.now c.args.first _ c.requires.whole
    c.requires.no_markup (omega arith) (omega arith) (omega arith) (sym c.begins_with_mark.ensures ∙ c.if-begins_with_mark.true)) (shows_good tokens.Mark 3)

pub returns-in_default-2 : goal.returns-in_default-2
returns-in_default-2 c = shows-same _ _ _ (begin-other c.args.position c.args.ended c.args.bytes.now c.args.behind.now c.args.first _ c.requires.whole
    c.requires.no_markup (omega arith) (omega arith) (omega arith) (sym c.begins_with_mark.ensures ∙ c.if-begins_with_mark.false)) c.character_token.ensures
