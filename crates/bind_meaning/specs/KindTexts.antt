-- What the kinds of faults of an invoice are called in what is told.
use Rattle.std.specs.Prelude.{ℕ, List, codes}
use Rattle.bind_meaning.specs.declared.fault.BindKind.{BindKind}
use Rattle.bind_meaning.specs.declared.fault.BindKind.TheVariants as kinds

abbrev pub kind_text : BindKind → List ℕ
kind_text kinds.UnknownRoot = codes "UnknownRoot"
kind_text kinds.Excess = codes "Excess"
kind_text kinds.ElementInValue = codes "ElementInValue"
kind_text kinds.BadValue = codes "BadValue"
kind_text kinds.CodeNotListed = codes "CodeNotListed"
kind_text kinds.CurrencyDiffers = codes "CurrencyDiffers"
kind_text kinds.Disagree = codes "Disagree"
kind_text kinds.Missing = codes "Missing"
kind_text kinds.Memory = codes "Memory"
