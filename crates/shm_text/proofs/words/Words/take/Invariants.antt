use Rattle.shm_text.proofs.Names.{◌≡◌, ◌≤◌, ◌-◌, ◌++◌, take, drop, false, All, list_all, is_allowed, is_space, words_of, line_end, first_line}
use Rattle.shm_text.proofs.words.Words.take.Given as goal

-- the first words of the line are the kept ones and, while a word is open, those from `start` on
abbrev pub invariant-loop-at : goal.invariant-loop-at
invariant-loop-at l = record {
  begun : l.start ≤ l.at;
  on : l.at ≤ line_end l.text;
  words : take 8 (words_of (first_line l.text)) ≡ take 8 (l.self ++ words_of (drop l.start (first_line l.text)));
  inside : All (λ b. is_space b ≡ false) (take (l.at - l.start) (drop l.start (first_line l.text)));
  allowed : l.allowed ≡ list_all is_allowed (take l.at (first_line l.text));
}
