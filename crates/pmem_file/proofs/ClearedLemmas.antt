-- A generation begins behind lines that were put in place.
use Rattle.std.proofs.Common.{◌≡◌, ◌⊎◌, ℕ, List, [], ◌++◌, take, get_or, inl, inr, sym, subst, ◌∙◌}
use Rattle.std.proofs.lemmas.Bool.{cases_Bool}
use Rattle.journal.specs.declared.shape.Shape.{Shape}
use Rattle.journal.specs.Record.{Record}
use Rattle.journal.specs.Replay.{replayed}
use Rattle.pmem_file.specs.declared.file_journal.FileJournal.{FileJournal}
use Rattle.pmem_file.specs.Call.{Call}
use Rattle.pmem_file.specs.Written.{is_in}
use Rattle.pmem_file.specs.Journaled.{IsMadeOf, IsEarlier, HasLines, Orders, placed, ClearsAway, Stops}
use Rattle.pmem_file.proofs.EarlierLemmas.{none-taken, placed-either}

-- what has these lines still has them once all records are in place
cleared-lines : (image base : ℕ → ℕ) (synced since records : List Record) (words lines : List ℕ)
    → HasLines image synced since words lines (replayed records base) → HasLines image synced since words lines (placed records words base)
cleared-lines image base synced since records words lines has =
    record {
      these = λ word here.
          elim (placed-either records words base word) [
            | inl e ↦ e ∙ has.these word here
            | inr e ↦ e
          ];
      others = λ word out.
          elim (placed-either records words base word) [
            | inl e ↦
                elim (has.others word out) [
                  | inl e' ↦ inl (e ∙ e')
                  | inr e' ↦ inr (e ∙ e')
                ]
            | inr e ↦ inr e
          ];
    }

pub Orders-cleared : (old mid new : FileJournal) (calls calls1 calls' : List Call) (words lines : List ℕ) → Orders old mid calls calls1 words lines
    → ClearsAway mid new calls1 calls' words → Orders old new calls calls' words lines
Orders-cleared old mid new calls calls1 calls' words lines orders clears =
    record {
      ordered = λ read image synced since j.
          let o = orders.ordered read image synced since j in
          let records = o.synced' ++ o.since' in
          let has = cleared-lines image o.image' synced since records words lines o.last in
          record {
            image' = placed records words o.image';
            synced' = [];
            since' = [];
            journals = clears.begun read o.image' o.synced' o.since' o.journals;
            each = λ n few.
                inr (subst (λ (rs : List Record). HasLines image synced since words lines (replayed rs (placed records words o.image'))) (sym (none-taken n)) has);
            last = has;
          };
    }

-- an image that has these lines is one in which each word is of one of both
either-lines : (image : ℕ → ℕ) (synced since : List Record) (words lines : List ℕ) (made : ℕ → ℕ) → HasLines image synced since words lines made
    → (word : ℕ) → (made word ≡ replayed (synced ++ since) image word) ⊎ (made word ≡ get_or words word 0)
either-lines image synced since words lines made has word =
    elim (cases_Bool (is_in lines word)) [
      | inl here ↦ inr (has.these word here)
      | inr out ↦ has.others word out
    ]

-- an image that is word by word one from before is one, too
same-earlier : (image : ℕ → ℕ) (synced since : List Record) (words : List ℕ) (made other : ℕ → ℕ) → ((word : ℕ) → made word ≡ other word)
    → IsEarlier image synced since words other → IsEarlier image synced since words made
same-earlier image synced since words made other same earlier =
    elim earlier [
      | inl e ↦ inl (e.0, e.1, λ word. same word ∙ e.2 word)
      | inr e ↦
          inr
          (λ word.
          elim (e word) [
            | inl e' ↦ inl (same word ∙ e')
            | inr e' ↦ inr (same word ∙ e')
          ])
    ]

-- where a generation was to begin and does not, behind lines that are in place
pub Stops-cleared : (old mid new : FileJournal) (calls calls1 calls' : List Call) (words lines : List ℕ) → mid.head.shape ≡ old.head.shape
    → Orders old mid calls calls1 words lines → Stops mid new calls1 calls' words → Stops old new calls calls' words
Stops-cleared old mid new calls calls1 calls' words lines shape orders stops =
    record {
      makes = λ read image file made synced since j is made'.
          let o = orders.ordered read image synced since j in
          let made1 : IsMadeOf mid.head.shape file made = subst (λ (s : Shape). IsMadeOf s file made) (sym shape) made' in
          elim (stops.makes read o.image' file made o.synced' o.since' o.journals is made1) [
            | inl e ↦
                let this = replayed (o.synced' ++ take e.0 o.since') o.image' in
                elim (o.each e.0 e.1) [
                  | inl before ↦ same-earlier image synced since words made this e.2 before
                  | inr has ↦ same-earlier image synced since words made this e.2 (inr (either-lines image synced since words lines this has))
                ]
            | inr e ↦
                inr
                (λ word.
                elim (e word) [
                  | inl e' ↦
                      elim (either-lines image synced since words lines (replayed (o.synced' ++ o.since') o.image') o.last word) [
                        | inl e'' ↦ inl (e' ∙ e'')
                        | inr e'' ↦ inr (e' ∙ e'')
                      ]
                  | inr e' ↦ inr e'
                ])
          ];
      head = λ read image synced since j.
          let o = orders.ordered read image synced since j in
          stops.head read o.image' o.synced' o.since' o.journals;
    }
