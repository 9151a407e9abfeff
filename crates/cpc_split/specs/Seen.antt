-- Marks as code has them.
use Rattle.cpc_forms.specs.Spread.{Spread}
pub use Rattle.cpc_forms_code.specs.Splits.{place_of, places_of}
use Rattle.cpc_split.specs.declared.marks.Marks.{Marks}

abbrev pub spread_of : Marks → Spread
spread_of m = record { owners = places_of m.owners.items; waiting = m.waiting.items }
