mod Proposed
