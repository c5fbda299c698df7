-- What a head, periods and doses are like that fit their bytes, and what rule 4 asks of them.
use Rattle.std.specs.Prelude.{◌≤◌, ◌<◌, false, List, ◌≡◌}
use Rattle.below.specs.Lists.{Every}
use Rattle.day.specs.Days.{is_no_span}
use Rattle.form.specs.Form.{field_out}
use Rattle.plan.specs.declared.Dose.{Dose}
use Rattle.plan.specs.declared.Head.{Head}
use Rattle.plan.specs.declared.Header.{Header}
use Rattle.layout.specs.Layout.{Written}

-- numbers of 1, 2, 4 and 8 bytes
pub record HeadFits (h : Head) : Type 0 where
  pub unit : h.unit < 65536
  pub start : h.start < 4294967296
  pub end : h.end < 4294967296
  pub number : h.number < 4294967296
  pub revision : h.revision < 4294967296
  pub vka : h.vka < 256

pub record HeaderFits (q : Header) : Type 0 where
  pub interval : q.interval < 65536
  pub first : q.first < 4294967296
  pub end : q.end < 4294967296

pub record DoseFits (d : Dose) : Type 0 where
  pub day : d.day < 65536
  pub kind : d.kind < 256
  pub mark : d.mark < 256
  pub minute : d.minute < 65536
  pub low : d.low < 18446744073709551616
  pub high : d.high < 18446744073709551616

pub record WrittenFits (w : Written) : Type 0 where
  pub header : HeaderFits w.header
  pub doses : Every DoseFits w.doses

abbrev pub AllFit : List Written → Type 0
AllFit ws = Every WrittenFits ws

-- rule 4 of a head, of a period and of all of them
pub record HeadRanged (h : Head) : Type 0 where
  pub days : is_no_span h.start h.end ≡ false
  pub vka : h.vka ≤ 1

abbrev pub DoseRanged : Dose → Type 0
DoseRanged d = field_out d ≡ false

pub record WrittenRanged (w : Written) : Type 0 where
  pub days : is_no_span w.header.first w.header.end ≡ false
  pub doses : Every DoseRanged w.doses

pub record Ranged (h : Head) (ws : List Written) : Type 0 where
  pub head : HeadRanged h
  pub periods : Every WrittenRanged ws
